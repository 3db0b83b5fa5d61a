-- What is kept of records that are tried one after another behind a block.
pub mod Tallies
pub mod Stands
