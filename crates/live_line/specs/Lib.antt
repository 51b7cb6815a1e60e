pub mod Field
pub mod Order
pub mod Meaning
pub mod Scope
pub mod inside
