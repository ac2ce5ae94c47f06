pub mod Naming
pub mod Follows
pub mod Steps
pub mod Sound
pub mod Starts
pub mod Ahead
pub mod Whole
pub mod Forms
