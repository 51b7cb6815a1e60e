pub mod Pieces
pub mod inside
