-- The walk over cells, where cells stand, and the room of a walk.
pub mod Walk
pub mod Triangles
pub mod Quads
pub mod Elements
pub mod Room
