pub mod Seen
pub mod Stores
pub mod inside
