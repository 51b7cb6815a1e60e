pub mod Shown
pub mod Ended
pub mod Fault
pub mod Skipped
pub mod Short
