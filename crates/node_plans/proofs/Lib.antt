pub mod Results
pub mod Plans
pub mod Added
pub mod Items
pub mod Ranks
pub mod Sites
pub mod Splices
pub mod Writes
