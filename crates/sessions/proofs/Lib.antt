pub mod Expressions
pub mod Meanings
pub mod Opening
pub mod Within
