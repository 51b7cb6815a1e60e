pub mod Storm
pub mod inside
