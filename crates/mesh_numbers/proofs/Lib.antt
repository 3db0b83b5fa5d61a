pub mod Bits
pub mod Flags
pub mod Windows
pub mod Passes
pub mod Ties
