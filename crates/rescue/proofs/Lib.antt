pub mod Steps
mod Answers
mod Bytes
pub mod Promise
mod Outcome
mod NeverOne
mod Determined
