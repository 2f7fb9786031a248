pub mod Bytes
pub mod Faults
pub mod Flash
pub mod Layout
