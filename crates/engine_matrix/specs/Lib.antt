pub mod Powers
pub mod Told
pub mod Grids
pub mod Machine
