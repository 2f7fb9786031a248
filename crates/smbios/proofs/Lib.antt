pub mod StructureLemmas
pub mod ListLemmas
pub mod FindingLemmas
pub mod TextLemmas
pub mod FileLemmas
