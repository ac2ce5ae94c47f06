pub mod Tests
pub mod Tracked
pub mod Inside
pub mod Walked
