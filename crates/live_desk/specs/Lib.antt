pub mod Laws
pub mod SamePod
pub mod State
pub mod Telling
pub mod Turns
pub mod inside
