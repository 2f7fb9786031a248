pub mod TextLemmas
pub mod CommandLemmas
pub mod GuidTextLemmas
pub mod RecordTextLemmas
pub mod ObjectLemmas
pub mod PaddingLemmas
pub mod LookLemmas
