-- The law of walks, one step a file.
pub mod Best
pub mod Charts
pub mod Cases
pub mod Found
pub mod Counts
pub mod Judged
pub mod Triangles
pub mod Quads
pub mod Elements
pub mod Room
