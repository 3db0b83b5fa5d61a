-- The laws of `append_text`.
pub mod Coordinates
pub mod Handed
pub mod Gathers
pub mod Opened
pub mod Loads
pub mod Outcomes
pub mod Example
