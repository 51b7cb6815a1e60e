pub mod Parsed
pub mod Items
pub mod Spelled
pub mod RowParts
pub mod Steps
pub mod Filled
pub mod Timely
