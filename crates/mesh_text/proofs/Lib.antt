pub mod Runs
pub mod Rows
pub mod Reading
pub mod Firsts
pub mod Grammar
pub mod Shut
pub mod Clip
