pub mod Told
pub mod Steps
pub mod Promise
pub mod Theorems
