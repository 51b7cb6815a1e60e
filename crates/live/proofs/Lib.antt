pub mod Kept
pub mod Going
pub mod Lived
pub mod Once
pub mod Answered
