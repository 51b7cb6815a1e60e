pub mod Translate
pub mod Laws
pub mod inside
