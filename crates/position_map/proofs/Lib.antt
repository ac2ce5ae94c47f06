pub mod Filling
pub mod Runs
pub mod Keeping
pub mod Ahead
pub mod Joining
pub mod Copying
