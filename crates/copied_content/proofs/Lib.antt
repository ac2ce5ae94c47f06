pub mod Attributes
pub mod Merging
pub mod New
pub mod Numbered
pub mod Parts
pub mod Sources
