pub mod Alone
pub mod Copies
pub mod Counted
pub mod Each
pub mod Limits
pub mod Looking
pub mod Unfolded
