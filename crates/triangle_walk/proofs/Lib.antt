-- The walk over a triangle's cells, step by step.
pub mod Places
pub mod Quarters
