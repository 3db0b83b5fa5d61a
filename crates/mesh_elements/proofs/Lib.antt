pub mod Orders
pub mod Coords
pub mod Clip
pub mod Rows
pub mod Flats
pub mod Points
pub mod Takings
