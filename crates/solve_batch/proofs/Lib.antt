pub mod Cases
pub mod Checks
pub mod Determined
pub mod Promise
pub mod Steps
