pub mod Spelling
pub mod Lengths
pub mod Claims
pub mod Theorems
