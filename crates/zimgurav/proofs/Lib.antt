pub mod Accepted
pub mod Agreement
pub mod Orders
