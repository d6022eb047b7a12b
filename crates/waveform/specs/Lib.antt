pub mod Waveform
pub mod Rows
pub mod Pins
