pub mod Reading
pub mod Timely
