pub mod Grid
pub mod Calls
pub mod Examples
