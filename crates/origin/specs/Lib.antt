-- What the theorems on the origin speak of (02, Ask 7).
pub mod Lists
pub mod Boxes
