pub mod Sets
pub mod Distinct
