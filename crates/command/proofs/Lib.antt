mod BuiltLemmas
pub mod FoundLemmas
pub mod NumberLemmas
pub mod SpecLemmas
pub mod MisuseLemmas
