pub mod Kept
pub mod OnlyDesk
pub mod Once
pub mod History
pub mod Asking
pub mod SameRows
pub mod Queued
