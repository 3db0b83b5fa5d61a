-- What the list of a block is, and what the calls `write_list` and `write_floor_list` leave.
pub mod Listing
pub mod Calls
pub mod Steps
