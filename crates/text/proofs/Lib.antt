pub mod Decimals
pub mod Wrote
