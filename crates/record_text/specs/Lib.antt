-- What a text of records says, its faults, and what a search for a fault finds.
pub mod Says
pub mod Faults
pub mod Values
pub mod Finds
