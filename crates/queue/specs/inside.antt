pub mod Slots
pub mod Row
pub mod Heap
pub mod Index
