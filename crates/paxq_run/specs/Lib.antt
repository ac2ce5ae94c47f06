pub mod Play
pub mod Sites
