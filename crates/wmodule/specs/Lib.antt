pub mod Syntax
pub mod Grammar
pub mod Placed
