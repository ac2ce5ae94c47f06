pub mod Steps
pub mod Drafts
pub mod Learnt
