-- The crate's proofs.
pub mod Growing
pub mod Settling
pub mod Stepping
pub mod Steps
pub mod Leading
pub mod Once
pub mod Reports
pub mod Endings
