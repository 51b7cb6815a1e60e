pub mod Handed
pub mod Image
pub mod Refused
pub mod Calls
pub mod inside
