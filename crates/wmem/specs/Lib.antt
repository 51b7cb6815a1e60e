pub mod Trap
pub mod Bytes
pub mod Access
pub mod Memory
pub mod Laws
pub mod inside
