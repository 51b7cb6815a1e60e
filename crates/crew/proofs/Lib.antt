pub mod Going
pub mod Cycling
pub mod Answering
pub mod Enlisting
pub mod Meeting
pub mod Waking
