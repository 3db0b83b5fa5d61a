pub mod Numbers
pub mod Complement
pub mod Places
pub mod Writes
