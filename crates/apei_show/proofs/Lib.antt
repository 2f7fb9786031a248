pub mod CommandLemmas
pub mod OutputLemmas
