-- What the call `append_text` answers and leaves, and what a pass over the lines of a text keeps.
pub mod Calls
pub mod Passes
