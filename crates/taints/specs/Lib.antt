pub mod Tolerance
pub mod TaintScore
pub mod Examples
