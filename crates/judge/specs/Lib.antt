pub mod Told
pub mod Entry
pub mod Theorems
pub mod Found
