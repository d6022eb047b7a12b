pub mod Given
pub mod Rows
pub mod Drawing
pub mod Settling
