-- What numbers in bytes mean.
pub mod Numbers
