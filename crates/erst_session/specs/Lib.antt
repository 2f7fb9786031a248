pub mod Demands
pub mod Works
pub mod Sessions
