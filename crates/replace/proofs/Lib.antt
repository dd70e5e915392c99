pub mod Came
pub mod Constraints
pub mod Dimensions
pub mod Each
pub mod Given
pub mod InProducts
pub mod Kept
pub mod Leaves
pub mod Looks
mod Nested
pub mod Opened
pub mod Places
pub mod Runs
pub mod Substitutions
mod Touches
mod Unsaid
pub mod Walks
pub mod Well
pub mod Written
