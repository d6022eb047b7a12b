pub mod Sizes
pub mod Patterns
pub mod SplitOrders
pub mod Operations
