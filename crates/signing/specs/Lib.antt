-- When a block is signed or converted, and what these calls answer and leave.
pub mod Orders
pub mod Calls
pub mod Steps
