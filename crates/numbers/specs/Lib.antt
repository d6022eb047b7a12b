pub mod Greatest
pub mod Words
