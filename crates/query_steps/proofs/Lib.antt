pub mod Lists
pub mod Ancestors
pub mod Descendants
pub mod Besides
pub mod Turns
pub mod Members
pub mod ByName
pub mod ByParent
