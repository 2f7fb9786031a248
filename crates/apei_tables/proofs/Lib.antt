pub mod Terms
pub mod GasSpelling
pub mod Spelling
pub mod Finding
