pub mod Powers
pub mod Rows
pub mod Runs
pub mod Laid
pub mod Agreement
