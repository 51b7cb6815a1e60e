pub mod Script
pub mod inside
