pub mod Entry
pub mod Generalising
pub mod Theorems
