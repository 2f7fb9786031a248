pub mod Commands
pub mod Options
pub mod Forms
pub mod Names
pub mod Numbers
pub mod Sources
pub mod Outputs
pub mod Faults
