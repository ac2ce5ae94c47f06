pub mod Whole
pub mod Exact
