pub mod Telling
pub mod Chains
