pub mod Named
pub mod Sized
