-- Proof sheets: what the two calls answer and leave.
pub mod Calls
pub mod Steps
