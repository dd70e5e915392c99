pub mod Counted
pub mod Theorems
