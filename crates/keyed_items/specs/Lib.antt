pub mod Keyed
pub mod Lasting
