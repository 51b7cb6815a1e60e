pub mod Tables
pub mod Totals
pub mod Rows
pub mod Codes
pub mod Finishes
