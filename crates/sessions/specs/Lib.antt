pub mod Requests
pub mod Terms
pub mod Meaning
pub mod Session
pub mod Inside
pub mod Applying
pub mod Positions
