pub mod Counts
pub mod Points
pub mod Terms
