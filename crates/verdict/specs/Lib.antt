-- The call `verdict`.
pub mod Calls
pub mod Twelve
pub mod Corners
