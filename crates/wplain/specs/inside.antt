pub mod Seen
pub mod Standing
pub mod Done
pub mod Running
