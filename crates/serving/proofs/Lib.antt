pub mod Closing
pub mod Rounding
