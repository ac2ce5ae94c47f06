pub mod Below
pub mod ByParent
pub mod Sets
