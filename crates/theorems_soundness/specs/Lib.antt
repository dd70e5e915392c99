pub mod Claims
pub mod Excepted
pub mod Examples
pub mod Theorems
