pub mod Answering
pub mod Applying
pub mod Nodes
