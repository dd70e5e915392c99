pub mod Applied
pub mod Bindings
pub mod Parts
pub mod Stepped
