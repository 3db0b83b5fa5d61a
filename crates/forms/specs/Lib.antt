-- The notions of the theory of cells, one subject a file.
pub mod Binomials
pub mod Rows
pub mod Forms
pub mod Cells
pub mod Cuttings
pub mod Shapes
pub mod Grids
pub mod Polar
pub mod Triangles
pub mod Quads
