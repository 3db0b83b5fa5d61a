-- The floor on distortion.
pub mod Floor
pub mod Calls
pub mod Examples
pub mod Steps
