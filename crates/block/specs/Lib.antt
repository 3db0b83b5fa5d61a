-- What an element block is, when one is refused, and what the calls on one answer.
pub mod Block
pub mod Faults
pub mod Calls
pub mod Changes
