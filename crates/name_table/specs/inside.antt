pub mod Slots
pub mod Written
pub mod Woven
pub mod Buckets
pub mod Lends
