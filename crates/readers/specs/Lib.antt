pub mod Handing
pub mod Chosen
pub mod Counting
pub mod Inputs
