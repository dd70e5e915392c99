pub mod Atoms
pub mod Lines
pub mod Columns
