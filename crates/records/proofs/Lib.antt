pub mod Votes
pub mod Plans
pub mod Groups
pub mod Empty
