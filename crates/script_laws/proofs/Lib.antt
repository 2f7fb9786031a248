pub mod HistoryLemmas
pub mod LineKinds
pub mod EquivalenceLemmas
pub mod GivenBack
pub mod KeptLines
pub mod KeptCauses
pub mod OrderLemmas
