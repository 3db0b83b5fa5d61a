-- The list, line by line; that the calls allow one outcome; and that nothing signed reopens.
pub mod Steps
pub mod Outcomes
pub mod Kept
