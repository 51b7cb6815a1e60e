pub mod Waiting
pub mod Translate
