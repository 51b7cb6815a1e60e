pub mod Check
pub mod Files
pub mod Modules
pub mod Told
pub mod Verdict
pub mod Version
pub mod inside
