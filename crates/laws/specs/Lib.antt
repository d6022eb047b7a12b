pub mod Ascii
pub mod Below
pub mod Turn
pub mod Rewritten
pub mod Settled
