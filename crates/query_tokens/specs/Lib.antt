pub mod Words
pub mod Reading
pub mod Limits
pub mod Lexing
pub mod Outcome
pub mod Cursor
pub mod Examples
pub mod Queues
