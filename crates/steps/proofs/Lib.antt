-- Steps of the proofs.
pub mod Fields
