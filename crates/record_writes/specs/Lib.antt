pub mod Stored
pub mod Holds
pub mod Members
pub mod Faults
