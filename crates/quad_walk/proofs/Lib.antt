-- The walk over a quad's cells, step by step.
pub mod Places
pub mod Quarters
