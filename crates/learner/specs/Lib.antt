pub mod Terms
pub mod Hearing
pub mod Changes
pub mod Drafts
pub mod Messages
pub mod Polls
pub mod Slots
