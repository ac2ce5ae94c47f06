-- The crate's definitions.
pub mod Events
