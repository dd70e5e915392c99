pub mod Cut
pub mod Upto
pub mod Theorems
