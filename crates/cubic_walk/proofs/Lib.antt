-- The walk over the cells of a ten-node triangle, step by step.
pub mod Cells
