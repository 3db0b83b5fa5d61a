-- The answers of the calls do not move with the origin (02, Ask 7).
pub mod Orders
pub mod Subjects
pub mod Values
pub mod Verdicts
pub mod Sheets
pub mod Straight
pub mod Accepts
pub mod Examples
