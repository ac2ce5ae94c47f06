pub mod Insertions
pub mod Parts
pub mod Targets
