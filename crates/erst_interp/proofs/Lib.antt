pub mod Terms
pub mod Rules
mod WorkLemmas
mod Walking
mod ProgressLemmas
pub mod ToldLemmas
pub mod BoundLemmas
pub mod Consequences
pub mod StepLemmas
pub mod StraightLemmas
