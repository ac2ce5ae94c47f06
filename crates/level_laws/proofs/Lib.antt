pub mod Within
pub mod Layers
pub mod Meanings
pub mod Faults
pub mod Giving
pub mod Forms
pub mod Spelt
