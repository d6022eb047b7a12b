pub mod Arguments
pub mod Pattern
pub mod SplitOrder
pub mod Operation
pub mod Numbers
