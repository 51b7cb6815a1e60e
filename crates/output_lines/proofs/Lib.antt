pub mod Added
pub mod Indented
pub mod OutputLines
pub mod Pairs
pub mod Rows
