pub mod Kept
pub mod Tuples
pub mod Making
