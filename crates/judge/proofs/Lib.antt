-- The laws of the verdict, one subject a file.
pub mod Faithful
pub mod Levels
pub mod Unique
pub mod Search
pub mod Computed
pub mod Demands
pub mod Eases
pub mod Twelve
pub mod Tens
pub mod Corners
pub mod Mean
