pub mod Each
pub mod FunctionTypes
pub mod ConstantFound
pub mod Names
pub mod Kept
pub mod Sized
