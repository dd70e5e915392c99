pub mod Parts
pub mod Rows
