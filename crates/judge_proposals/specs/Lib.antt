pub mod Bounds
pub mod Mixed
