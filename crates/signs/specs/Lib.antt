-- What a record's sign says, and when a record differs from it.
pub mod Signs
pub mod Calls
