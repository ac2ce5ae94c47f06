pub mod Characters
pub mod Names
