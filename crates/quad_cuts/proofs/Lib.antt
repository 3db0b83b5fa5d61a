-- Laws of the quarters of a quad.
pub mod Halves
pub mod Lines
