pub mod Grammar
pub mod Reading
pub mod Entries
pub mod Writer
pub mod Names
pub mod Table
pub mod Region
