pub mod Atoms
pub mod Factors
mod Longer
pub mod Powers
pub mod Times
pub mod Whole
