pub mod Assembling
pub mod Whole
