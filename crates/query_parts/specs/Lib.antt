pub mod Gives
pub mod Held
pub mod Operators
pub mod Steps
