pub mod Appended
pub mod Begins
pub mod Asked
pub mod Histories
