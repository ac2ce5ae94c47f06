pub mod Assembly
pub mod Distinct
pub mod Going
pub mod Growing
