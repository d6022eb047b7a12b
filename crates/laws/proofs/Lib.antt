pub mod Tests
pub mod Numbers
pub mod Below
pub mod Greatest
pub mod Lists
pub mod Turn
pub mod Pairs
pub mod Rewritten
