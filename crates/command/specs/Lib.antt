pub mod Fault
pub mod Count
pub mod Words
pub mod Within
pub mod Examples
pub mod Verb
pub mod Misuse
pub mod inside
