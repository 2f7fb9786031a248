pub mod Severities
pub mod Sizes
pub mod Given
pub mod Blocks
pub mod Records
