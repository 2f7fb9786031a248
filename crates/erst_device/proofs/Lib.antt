pub mod Words
pub mod ActionLemmas
pub mod EffectLemmas
pub mod TimingLemmas
