-- The corners of a quad cell, and its halves.
pub mod Corners
pub mod Halves
