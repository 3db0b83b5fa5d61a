-- What the program prints.
pub mod Input
