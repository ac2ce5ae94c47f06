pub mod Outcomes
pub mod Uncounted
