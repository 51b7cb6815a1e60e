pub mod KeyOrder
pub mod Laws
pub mod Record
pub mod inside
