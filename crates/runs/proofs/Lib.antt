pub mod Runs
pub mod Zeros
pub mod Next
pub mod Begins
pub mod Walk
pub mod Ranges
