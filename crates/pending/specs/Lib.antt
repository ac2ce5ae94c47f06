pub mod Primitives
pub mod Compatible
pub mod Inside
pub mod Texts
