pub mod Excitations
pub mod Rows
