pub mod Entering
pub mod Parts
pub mod Members
pub mod Rows
