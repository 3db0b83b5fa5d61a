-- The walk over a quad's cells.
pub mod Walks
