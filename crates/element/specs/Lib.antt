-- What the words of an element mean, in 01's order, one subject a file.
pub mod Kinds
pub mod Places
pub mod Plane
pub mod Nodes
pub mod Centre
pub mod Cubic
pub mod Lagrange
pub mod Jacobian
pub mod Control
pub mod Paper
pub mod Cells
pub mod Bounds
pub mod Origin
pub mod Corners
pub mod Edges
pub mod Refusals
