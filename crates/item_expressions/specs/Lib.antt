pub mod Applied
pub mod Compared
pub mod Joined
pub mod Lasting
pub mod Looped
pub mod Numbers
pub mod Others
pub mod Subjects
