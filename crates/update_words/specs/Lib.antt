pub mod New
pub mod Ready
