pub mod Turns
pub mod Top
pub mod Lengths
pub mod Unrolled
pub mod Completed
pub mod Unwound
pub mod Settled
