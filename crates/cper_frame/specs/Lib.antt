pub mod Grammar
pub mod Reading
pub mod Sections
pub mod Writer
pub mod Stream
pub mod Pieces
pub mod Names
