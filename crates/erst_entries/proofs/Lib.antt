pub mod Terms
pub mod Listing
pub mod EntryBytes
pub mod TableBytes
pub mod Finding
pub mod Grouping
