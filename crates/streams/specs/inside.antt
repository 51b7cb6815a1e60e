pub mod Device
pub mod Lines
