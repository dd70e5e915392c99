mod Marks
mod Moves
mod Checks
mod Called
mod Determined
mod Kept
mod HeldNames
mod Alike
pub mod Promise
mod Twice
