pub mod PartLemmas
pub mod EntryLemmas
