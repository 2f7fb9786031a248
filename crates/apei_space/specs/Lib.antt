pub mod Calls
pub mod Accesses
pub mod Windows
pub mod Stretches
pub mod Guesses
pub mod RamState
pub mod Reasons
pub mod Mapped
