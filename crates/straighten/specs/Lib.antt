-- What the call `straighten` answers, the order in which its code tries the sets, and triangles for each of them.
pub mod Calls
pub mod Trials
pub mod Examples
