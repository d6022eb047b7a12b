pub mod Frame
pub mod Answers
pub mod Soundness
