pub mod Bits
pub mod Leading
