-- Steps of the proofs.
pub mod Sums
