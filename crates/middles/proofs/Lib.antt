-- Halves and middles, the order of the sets, and what replacing nodes leaves of a triangle.
pub mod Nodes
pub mod Halves
pub mod Orders
pub mod Triangles
pub mod Idle
pub mod Moved
