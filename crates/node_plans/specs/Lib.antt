pub mod Planned
pub mod Splices
