-- What is taken of a text, and what the call `append_mesh` answers and leaves.
pub mod Taken
pub mod Calls
