pub mod Numbered
pub mod Deeds
pub mod Theorems
