pub mod WrittenLemmas
pub mod ChainLemmas
pub mod MoveLemmas
pub mod SumLemmas
pub mod SlotLemmas
pub mod FreeLemmas
pub mod WovenLemmas
pub mod TableLemmas
