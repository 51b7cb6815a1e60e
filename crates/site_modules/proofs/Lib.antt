pub mod Failures
pub mod Fronts
pub mod Sites
pub mod Verdicts
pub mod Checks
