-- Steps of the proofs.
pub mod Corners
