pub mod Layout
pub mod Walk
pub mod Tables
