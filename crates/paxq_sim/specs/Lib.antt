-- The crate's definitions.
pub mod Play
pub mod Stores
pub mod Going
pub mod Places
pub mod Ran
