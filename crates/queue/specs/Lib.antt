pub mod Order
pub mod Refusal
pub mod Queue
pub mod Calls
pub mod inside
