pub mod Ahead
pub mod Found
pub mod Rows
pub mod Theorems
