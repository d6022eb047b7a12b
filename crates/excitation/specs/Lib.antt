pub mod Excitation
pub mod UncertaintySet
pub mod Table
pub mod Examples
