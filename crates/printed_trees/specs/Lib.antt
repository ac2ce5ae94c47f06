pub mod Constructors
pub mod Examples
