-- What the rows and words of a Gmsh text are, and what its words stand for.
pub mod Rows
pub mod Words
pub mod Tests
