pub mod SegmentLemmas
pub mod Unasked
pub mod InstanceLemmas
pub mod ImageLemmas
pub mod SamePod
