pub mod WordBytes
pub mod Ranges
