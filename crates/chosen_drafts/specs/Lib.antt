pub mod Chosen
pub mod Terms
pub mod Noting
pub mod Inside
pub mod Shown
