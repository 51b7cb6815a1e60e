pub mod Field
pub mod Fault
pub mod Operation
pub mod Reading
pub mod Item
pub mod Rows
pub mod Line
pub mod inside
