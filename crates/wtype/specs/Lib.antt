pub mod Accepted
pub mod CheckedModule
pub mod Refused
