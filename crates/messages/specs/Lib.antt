pub mod Appending
pub mod Spelling
pub mod Reading
pub mod Lengths
