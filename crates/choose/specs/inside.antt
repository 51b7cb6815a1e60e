pub mod Verdict
pub mod Finding
pub mod Alone
pub mod Plain
