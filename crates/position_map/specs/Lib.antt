pub mod Slots
pub mod Ends
