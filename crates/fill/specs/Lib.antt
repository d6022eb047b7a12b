pub mod Gaps
pub mod Fill
pub mod Filling
pub mod Examples
