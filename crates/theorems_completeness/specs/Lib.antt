pub mod Claims
pub mod Examples
pub mod Theorems
