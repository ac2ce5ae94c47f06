pub mod Each
pub mod PutBack
pub mod Turns
