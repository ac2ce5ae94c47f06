pub mod Forms
pub mod EventFiles
pub mod Within
pub mod Spelt
