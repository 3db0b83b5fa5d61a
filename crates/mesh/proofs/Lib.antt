pub mod Takes
pub mod Gathers
pub mod Readings
pub mod Opened
pub mod Loads
pub mod Outcomes
pub mod Example
