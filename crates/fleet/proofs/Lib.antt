pub mod Alike
pub mod Together
