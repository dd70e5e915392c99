-- What the proofs of several functions use.
pub mod Buffers
pub mod ByView
mod Closing
pub mod Cut
mod Determined
pub mod Found
pub mod Given
pub mod Held
pub mod Holds
pub mod Moves
pub mod Parsed
mod Parts
pub mod Places
pub mod Schemes
pub mod Stores
pub mod Walks
pub mod Whole
mod Wholes
