pub mod Calls
pub mod Clauses
pub mod Comparing
pub mod Deciding
pub mod Kept
pub mod Signing
pub mod Values
