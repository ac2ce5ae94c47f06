pub mod Effects
pub mod Brought
pub mod Results
pub mod Changed
pub mod Examples
