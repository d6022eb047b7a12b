pub mod Envelope
pub mod Soundness
