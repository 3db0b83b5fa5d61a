-- Cells of both shapes, as the checker and the writer of sheets take them.
pub mod Either
