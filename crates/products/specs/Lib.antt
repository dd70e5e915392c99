pub mod Told
pub mod Kinds
pub mod Held
pub mod Entry
pub mod Theorems
