pub mod Signs
pub mod Order
pub mod Values
pub mod Whole
