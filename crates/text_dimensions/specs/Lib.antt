pub mod Atoms
pub mod Powers
pub mod Times
pub mod Factors
pub mod Whole
