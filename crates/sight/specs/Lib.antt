pub mod Lengths
pub mod Sights
