pub mod Inside
pub mod Named
