-- What a record that is appended is, when it is refused, and what the calls that write a block answer and leave, one call or a run of them.
pub mod Append
pub mod Calls
pub mod Series
