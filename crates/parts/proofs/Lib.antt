pub mod Joins
pub mod Numbers
pub mod Delays
