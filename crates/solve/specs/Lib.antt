pub mod Told
pub mod Running
pub mod Theorems
