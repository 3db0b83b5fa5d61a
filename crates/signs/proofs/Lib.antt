pub mod Verdicts
pub mod Kept
