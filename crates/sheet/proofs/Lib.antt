-- The proofs of the sheet's calls: the code's cases, and what the contracts come to.
pub mod Headers
pub mod Elements
pub mod Checks
pub mod Least
pub mod Writes
pub mod Checker
pub mod Writer
pub mod Shut
