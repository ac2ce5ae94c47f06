pub mod Terms
pub mod Ballot
pub mod Values
pub mod Replies
pub mod Messages
pub mod Spelling
pub mod Limits
