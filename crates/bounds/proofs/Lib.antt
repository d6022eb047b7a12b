pub mod Evaluating
pub mod Making
pub mod Sheets
