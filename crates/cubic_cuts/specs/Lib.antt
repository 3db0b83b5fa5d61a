-- Lines of values, and the values of a cell by their names.
pub mod Lines
pub mod Cells
