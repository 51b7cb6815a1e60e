pub mod Verdict
pub mod Choice
pub mod Laws
pub mod Kits
pub mod inside
