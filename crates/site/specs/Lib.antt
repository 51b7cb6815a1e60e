pub mod Decision
pub mod Laws
pub mod Planned
pub mod Run
pub mod Site
