pub mod Shelves
pub mod Stays
