pub mod Atoms
pub mod Bases
pub mod Columns
pub mod Fitted
pub mod OnLines
mod Others
pub mod Sorting
