pub mod Made
pub mod Examples
