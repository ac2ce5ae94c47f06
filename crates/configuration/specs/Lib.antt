pub mod Configuration
pub mod Configured
