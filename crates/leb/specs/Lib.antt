pub mod Number
pub mod Fault
pub mod Reading
pub mod inside
