pub mod Terms
pub mod BytesLemmas
pub mod ErasedLemmas
pub mod FaultLemmas
pub mod CrashLemmas
pub mod PowerLemmas
