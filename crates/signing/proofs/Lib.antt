pub mod Orders
pub mod Signed
pub mod Outcomes
pub mod Runs
