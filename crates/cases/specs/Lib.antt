pub mod Case
pub mod Search
pub mod Probes
pub mod Promise
pub mod Choice
pub mod SplitOrder
pub mod Store
pub mod Records
