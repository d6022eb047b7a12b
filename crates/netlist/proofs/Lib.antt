pub mod Packing
pub mod KnownWords
pub mod RightGates
pub mod Parts
pub mod Bracketed
pub mod Formed
pub mod Written
