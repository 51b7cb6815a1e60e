pub mod Store
pub mod Kept
pub mod Words
pub mod Inside
