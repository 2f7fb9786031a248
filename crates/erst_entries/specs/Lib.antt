pub mod Layout
pub mod Actions
pub mod Instructions
pub mod Programs
pub mod Groups
pub mod Tables
