pub mod Handed
pub mod Seen
