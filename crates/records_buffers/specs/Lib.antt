pub mod Told
pub mod Determined
pub mod Theorems
