pub mod Examples
pub mod Gaps
pub mod Merged
pub mod Ticks
pub mod Filled
pub mod Walks
pub mod Filling
pub mod Counting
