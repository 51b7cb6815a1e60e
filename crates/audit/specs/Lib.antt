pub mod Audit
pub mod inside
