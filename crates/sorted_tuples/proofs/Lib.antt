pub mod Abbreviated
pub mod Ranking
pub mod Shared
pub mod Sorting
pub mod Types
