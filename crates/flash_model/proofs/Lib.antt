pub mod Telling
pub mod Walks
pub mod Changes
pub mod SpanLemmas
