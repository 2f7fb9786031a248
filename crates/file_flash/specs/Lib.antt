pub mod Mediums
pub mod States
