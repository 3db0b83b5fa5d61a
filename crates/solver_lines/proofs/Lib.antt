-- What is no number.
pub mod Nans
