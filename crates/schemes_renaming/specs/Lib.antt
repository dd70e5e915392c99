pub mod Places
pub mod Theorems
