pub mod History
pub mod PlayedLines
pub mod Spares
pub mod Orders
pub mod KeptCauses
pub mod Equivalence
