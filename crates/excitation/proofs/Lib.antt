pub mod Finite
pub mod Bytes
pub mod Sets
pub mod Held
pub mod OneMember
pub mod Codes
pub mod Lookup
pub mod Examples
