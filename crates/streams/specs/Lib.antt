pub mod Device
pub mod Fault
pub mod Greatest
pub mod Lines
pub mod Script
pub mod TextBuilder
pub mod inside
