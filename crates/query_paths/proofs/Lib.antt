pub mod Calls
pub mod Counts
pub mod Directions
pub mod Finds
pub mod Named
pub mod Numbers
pub mod Repeats
pub mod Work
