-- The laws of whole numbers, one subject a file.
pub mod Truth
pub mod Ring
pub mod Order
pub mod Size
pub mod Normal
pub mod Solve
pub mod Bound
pub mod Within
pub mod Fill
pub mod Sofar
