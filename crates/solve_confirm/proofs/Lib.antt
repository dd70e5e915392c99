mod Ruled
mod Handed
pub mod Promise
pub mod Determined
pub mod Own
