pub mod Reading
pub mod Unique
pub mod Kept
pub mod Codes
pub mod Outline
pub mod Decoded
pub mod Ids
