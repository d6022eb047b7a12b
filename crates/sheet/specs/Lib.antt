pub mod Sheet
pub mod Quiet
pub mod Words
pub mod Changes
pub mod Sums
