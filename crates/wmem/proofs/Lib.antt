pub mod Buffers
pub mod Changes
pub mod LawProofs
pub mod Loads
pub mod NotedLemmas
pub mod TrackedLemmas
