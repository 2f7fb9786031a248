pub mod Shown
pub mod Written
pub mod Items
pub mod TableLines
pub mod Tables
pub mod Frames
pub mod Texts
pub mod Checks
