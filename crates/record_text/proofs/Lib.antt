-- The laws of the search for a fault.
pub mod Tests
pub mod Ends
pub mod Joined
pub mod Searches
pub mod Readings
pub mod Shut
