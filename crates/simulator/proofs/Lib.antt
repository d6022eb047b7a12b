pub mod Simulation
pub mod Answers
