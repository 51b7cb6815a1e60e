pub mod Codes
pub mod Swept
