pub mod Lang
pub mod Words
pub mod Functions
pub mod Grammar
pub mod Loose
pub mod Reading
pub mod Reader
