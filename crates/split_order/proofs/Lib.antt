pub mod Cones
pub mod Sorting
pub mod Keys
pub mod ByCone
pub mod Trying
pub mod ByBounds
