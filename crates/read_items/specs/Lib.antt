pub mod Pairs
pub mod Read
pub mod Texts
