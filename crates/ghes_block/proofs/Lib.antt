pub mod Terms
pub mod EntryLaws
pub mod Walks
pub mod Blocks
pub mod Whole
pub mod Writes
pub mod TableLemmas
pub mod RegionLemmas
