pub mod FaultLemmas
pub mod AskedLemmas
