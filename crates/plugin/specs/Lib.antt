pub mod Verdict
pub mod Plugins
pub mod Entries
pub mod Refused
pub mod Kit
pub mod Laws
pub mod inside
