pub mod Fit
pub mod Score
pub mod Examples
pub mod inside
