pub mod Copied
pub mod Levels
