pub mod Known
pub mod Signs
pub mod Order
pub mod Codec
pub mod Refusals
