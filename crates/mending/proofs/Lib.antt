-- The order of codes, the bytes that are written, and what `straighten_record` comes to: its outcome, the block and the list afterwards.
pub mod Orders
pub mod Records
pub mod Answers
pub mod Writes
pub mod Outcomes
pub mod Runs
pub mod Touched
pub mod Lists
