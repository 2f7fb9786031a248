pub mod Reasons
pub mod Registers
pub mod Erst
pub mod Hest
pub mod Bert
