-- The laws of cuttings as bytes, and of the steps that read and write them.
pub mod Bytes
pub mod Heads
pub mod Trimmed
pub mod Reading
pub mod Writing
pub mod Room
