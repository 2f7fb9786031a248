pub mod GuidTextLemmas
pub mod JoinLemmas
pub mod PlaceLemmas
pub mod SpokenLemmas
pub mod WorstLemmas
