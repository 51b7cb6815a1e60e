pub mod Made
pub mod Cycles
pub mod Crew
pub mod inside
