pub mod Faults
pub mod Examples
pub mod Standing
pub mod Written
pub mod Spelling
pub mod Saying
