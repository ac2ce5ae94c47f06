-- The crate's proofs.
pub mod Turns
pub mod Sites
pub mod Plays
pub mod Endings
