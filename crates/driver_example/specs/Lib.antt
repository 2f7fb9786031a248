pub mod States
pub mod Wear
