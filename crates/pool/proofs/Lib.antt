pub mod Collecting
pub mod Kits
pub mod Ruled
