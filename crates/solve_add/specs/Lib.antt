pub mod Told
pub mod Theorems
pub mod Entry
pub mod Stored
