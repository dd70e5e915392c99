pub mod Members
pub mod Parts
pub mod Rows
