pub mod Terms
pub mod Rules
pub mod RequestLemmas
pub mod SequenceLemmas
mod StageLemmas
mod PositionLemmas
mod BoundLemmas
mod WritingLemmas
mod ReadingLemmas
mod AskingLemmas
pub mod CommandLemmas
pub mod AttachLemmas
mod FindingLemmas
pub mod CauseLemmas
pub mod RefusalLemmas
pub mod CommandCauses
