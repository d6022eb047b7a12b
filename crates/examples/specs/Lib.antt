pub mod Starred
pub mod Orders
