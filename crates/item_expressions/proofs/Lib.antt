pub mod Applying
pub mod Calculating
pub mod Comparing
pub mod Joining
pub mod Numbers
pub mod Returned
pub mod Standing
pub mod Tested
