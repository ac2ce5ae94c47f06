pub mod Answered
pub mod Going
pub mod Starting
pub mod Spelt
pub mod SpeltBack
pub mod Planning
pub mod Stepping
