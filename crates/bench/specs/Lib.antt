pub mod Checks
pub mod Records
pub mod Bench
pub mod ReadsBack
pub mod Held
pub mod Examples
