-- The crate's proofs.
pub mod Refusals
pub mod Taken
pub mod NetworkForms
