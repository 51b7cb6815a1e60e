pub mod Entry
pub mod Change
pub mod inside
