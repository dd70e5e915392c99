pub mod Put
pub mod Reducing
pub mod Told
pub mod Theorems
