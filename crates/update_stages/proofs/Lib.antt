pub mod Absent
pub mod Places
pub mod Counts
pub mod LookUps
pub mod Shares
pub mod Turns
