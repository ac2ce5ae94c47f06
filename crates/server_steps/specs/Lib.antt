pub mod Addressed
pub mod Going
pub mod Held
pub mod Hold
pub mod Keeping
pub mod Leading
pub mod Moves
pub mod Refusals
