pub mod Cycles
pub mod Either
pub mod OneCycle
pub mod OwnNames
