pub mod Rules
mod Lists
mod HeardLemmas
mod GatherLemmas
mod ListingLemmas
mod DeviceLemmas
mod BoundLemmas
