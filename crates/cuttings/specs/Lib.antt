-- Cuttings as bytes.
pub mod Bytes
pub mod Reads
