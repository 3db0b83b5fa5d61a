-- Cells of both shapes in one form.
pub mod Shapes
