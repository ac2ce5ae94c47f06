pub mod Repeats
pub mod Orders
