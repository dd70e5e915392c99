pub mod Answers
pub mod Theorems
