-- The middles of a triangle's edges, rounded down; sets of middle nodes, and their order.
pub mod Middles
pub mod Sets
