-- Steps of the proofs, and the laws of the shapes of lower degree.
pub mod Sums
pub mod Turns
pub mod Lower
