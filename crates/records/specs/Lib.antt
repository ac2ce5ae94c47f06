pub mod Law
pub mod Kept
pub mod Script
pub mod Group
