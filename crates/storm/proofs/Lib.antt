pub mod Closing
pub mod Staging
pub mod Ending
