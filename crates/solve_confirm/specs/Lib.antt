pub mod Told
pub mod Theorems
