pub mod Ends
pub mod Explained
pub mod Fronts
pub mod OneOutput
pub mod Progress
pub mod SameOutput
