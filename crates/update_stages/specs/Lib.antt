pub mod Brought
pub mod Places
