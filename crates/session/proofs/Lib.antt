pub mod Filled
pub mod Nodes
