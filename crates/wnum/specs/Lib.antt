pub mod Representation
pub mod Integer
pub mod Conversion
pub mod Trap
