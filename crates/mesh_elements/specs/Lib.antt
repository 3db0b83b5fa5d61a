-- Which elements of a mesh are ours, in which order their nodes stand, and what is taken of them.
pub mod Orders
pub mod Takings
pub mod Rows
