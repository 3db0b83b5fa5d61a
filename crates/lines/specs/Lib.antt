-- The lines of the list as text.
pub mod Words
pub mod Names
