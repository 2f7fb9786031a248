pub mod Limits
pub mod Layouts
pub mod Pasts
pub mod Content
pub mod Spans
pub mod Simulation
