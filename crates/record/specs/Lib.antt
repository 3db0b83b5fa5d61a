-- What a record of an element block is, and when a stored one is refused.
pub mod Record
pub mod Faults
