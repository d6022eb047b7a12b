pub mod Lines
pub mod Names
pub mod Forms
pub mod Kept
pub mod Written
