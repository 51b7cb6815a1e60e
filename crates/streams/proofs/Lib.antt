pub mod Asked
pub mod Built
pub mod Greatest
pub mod Known
pub mod Pieces
pub mod Taking
