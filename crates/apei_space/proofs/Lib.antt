pub mod Terms
pub mod AccessLemmas
mod BytePlaces
pub mod Locations
pub mod MappedLemmas
pub mod Placed
pub mod StretchLemmas
