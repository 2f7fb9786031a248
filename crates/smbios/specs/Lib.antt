pub mod Lists
pub mod Structures
pub mod Finding
pub mod Texts
pub mod Files
pub mod Memory
