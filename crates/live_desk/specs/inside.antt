pub mod Codes
pub mod Change
