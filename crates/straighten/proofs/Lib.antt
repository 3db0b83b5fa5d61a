-- The order of trial, the answers of the code, what the contract of `straighten` comes to, and examples.
pub mod Trials
pub mod Answers
pub mod Outcomes
pub mod Examples
