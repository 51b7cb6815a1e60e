pub mod Indented
pub mod Replies
pub mod Telling
pub mod Text
