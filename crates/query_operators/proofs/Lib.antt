pub mod Pairs
pub mod Ranging
pub mod Values
