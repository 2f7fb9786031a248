pub mod Terms
pub mod Structures
pub mod Lengths
pub mod Walks
pub mod Hests
