-- The laws of the theory of cells, one subject a file.
pub mod Rows
pub mod Forms
pub mod Cells
pub mod Cuttings
pub mod Shapes
pub mod Grids
pub mod Between
pub mod Under
pub mod Shifts
pub mod Triangles
pub mod Quads
pub mod Polar
