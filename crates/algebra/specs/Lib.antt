-- The notions of the algebra of whole numbers, one subject a file.
pub mod Ops
pub mod Expr
pub mod Normal
pub mod Bound
pub mod Within
pub mod Fill
