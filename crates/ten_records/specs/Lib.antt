-- What is read of a record.
pub mod Records
