pub mod Booleans
pub mod Deletes
pub mod Absent
pub mod Tidying
pub mod Nothing
pub mod Each
pub mod Stores
