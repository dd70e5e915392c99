mod Asked
pub mod Bounds
pub mod Others
