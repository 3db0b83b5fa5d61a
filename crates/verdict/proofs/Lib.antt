-- The laws of the call `verdict`, and of any call that judges.
pub mod Judging
pub mod Answers
pub mod Outcomes
pub mod Cubic
pub mod Twelve
pub mod Corners
pub mod Shut
