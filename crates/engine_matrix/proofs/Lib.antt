pub mod Grids
mod Loops
pub mod Machine
pub mod Sevens
mod Steps
