pub mod Gathered
pub mod Named
pub mod Predicates
pub mod Repeats
pub mod Steps
