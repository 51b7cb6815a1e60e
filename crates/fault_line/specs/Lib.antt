pub mod Excerpt
pub mod Unread
pub mod Fault
pub mod Message
pub mod Refusal
pub mod Text
