-- The laws of a reader's steps, and of its runs.
pub mod Walked
pub mod Runs
