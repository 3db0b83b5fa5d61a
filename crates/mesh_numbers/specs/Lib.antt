-- The node numbers of a text: whether one stands twice, and whether one that an element wants is not listed.
pub mod Numbers
pub mod Bits
pub mod Windows
