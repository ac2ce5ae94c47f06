pub mod Evaluates
pub mod Functions
pub mod Operations
pub mod Parts
pub mod Sets
pub mod Shared
