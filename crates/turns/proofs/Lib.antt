-- The argument, step by step.
pub mod Correspond
pub mod Alike
pub mod Turns
pub mod Subjects
pub mod Orders
pub mod Triangles
pub mod Quads
pub mod Jacobian
pub mod Points
pub mod Elements
pub mod Calls
pub mod Mirrored
pub mod Examples
