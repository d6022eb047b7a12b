pub mod Reach
pub mod Sorting
pub mod Trying
pub mod SplitOrder
