pub mod KeyOrder
pub mod Packed
