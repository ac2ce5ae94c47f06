pub mod Shelf
pub mod Within
pub mod Parted
