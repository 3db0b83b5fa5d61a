-- What the code reports of bad points.
pub mod First
pub mod Triangles
