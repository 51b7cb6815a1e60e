pub mod Built
pub mod Words
