-- What a reader of a block answers, and its runs.
pub mod Steps
pub mod Runs
