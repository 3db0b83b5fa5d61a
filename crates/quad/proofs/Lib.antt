pub mod Binomials
pub mod Points
pub mod Terms
pub mod Nest
pub mod Turns
pub mod Formula
