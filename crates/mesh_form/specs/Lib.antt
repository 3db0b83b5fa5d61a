-- What a Gmsh MSH 2.2 text is, and a walk over its rows that tells.
pub mod Mesh
pub mod Told
pub mod Walk
pub mod Values
pub mod Items
