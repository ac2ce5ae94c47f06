pub mod Clauses
pub mod Values
