pub mod Forest
pub mod Inside
pub mod Drafts
pub mod Drafted
pub mod Undo
pub mod Settled
pub mod Grown
