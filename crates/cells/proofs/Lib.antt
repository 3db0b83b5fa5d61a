-- Steps of the proofs, here and of the cuts.
pub mod Parts
pub mod Quarters
pub mod Sums
