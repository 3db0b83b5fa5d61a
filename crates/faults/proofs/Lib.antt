pub mod Limits
pub mod Meant
pub mod Pairs
pub mod Refusals
