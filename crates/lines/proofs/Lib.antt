-- How long lines are, and numbers with a space before each.
pub mod Lengths
pub mod Spaced
