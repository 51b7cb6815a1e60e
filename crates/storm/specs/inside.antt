pub mod Stages
pub mod Ending
