-- The walk over a triangle's cells.
pub mod Walks
