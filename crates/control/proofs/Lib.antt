pub mod Answers
pub mod Outcomes
pub mod Cubic
pub mod Running
pub mod Shut
