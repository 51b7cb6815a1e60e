pub mod Digits
pub mod Grammar
pub mod Faults
pub mod Range
pub mod Clauses
