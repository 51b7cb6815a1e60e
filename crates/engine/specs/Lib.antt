pub mod Laws
pub mod Output
pub mod Run
pub mod inside
