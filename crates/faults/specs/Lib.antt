-- What the code computes on its way.
pub mod Kinds
pub mod Nodes
pub mod Refusal
