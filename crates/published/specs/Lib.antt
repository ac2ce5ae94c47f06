pub mod Stores
pub mod Begun
pub mod Readers
pub mod Histories
