pub mod Points
pub mod Wider
pub mod First
pub mod Limits
