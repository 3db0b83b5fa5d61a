-- The laws of the floor on distortion.
pub mod Codes
pub mod Corners
pub mod Values
pub mod Levels
pub mod Still
pub mod Floors
pub mod Room
pub mod Parts
pub mod Outcomes
pub mod Examples
