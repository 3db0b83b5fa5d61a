-- The verdict, in 01's words, and the elements that are proved.
pub mod Verdict
pub mod Faithful
pub mod Elements
pub mod Eases
pub mod Twelve
pub mod Tens
pub mod Corners
