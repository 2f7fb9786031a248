pub mod Access
pub mod Fields
pub mod GasLayout
pub mod Check
pub mod Layout
pub mod Tables
