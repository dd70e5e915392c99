pub mod Told
pub mod Counting
pub mod Theorems
