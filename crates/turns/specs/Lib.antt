-- What numbering does to a verdict.
pub mod Numbering
pub mod Kept
pub mod Turns
pub mod Examples
