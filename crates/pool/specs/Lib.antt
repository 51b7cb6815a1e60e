pub mod Speaking
pub mod inside
