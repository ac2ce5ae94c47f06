pub mod Deleted
pub mod Found
pub mod Placed
pub mod Replaced
pub mod Steps
