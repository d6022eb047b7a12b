pub mod Texts
pub mod Decimals
pub mod Patterns
pub mod Searches
