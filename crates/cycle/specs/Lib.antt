pub mod Cycle
pub mod CycleAlone
