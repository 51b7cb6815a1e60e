pub mod KeyOrderLemmas
pub mod RecordLemmas
pub mod FieldLemmas
