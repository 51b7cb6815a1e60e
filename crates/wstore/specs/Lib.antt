pub mod Values
pub mod Store
pub mod Fits
pub mod Segments
pub mod State
pub mod inside
