pub mod Answering
pub mod Asking
pub mod Members
pub mod Playing
pub mod Sent
pub mod Told
