-- When record k of a block is straightened, and what the call answers and leaves.
pub mod Orders
pub mod Changes
pub mod Calls
pub mod Lists
pub mod Steps
