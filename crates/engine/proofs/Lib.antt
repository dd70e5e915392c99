mod Determined
pub mod Entry
mod Factors
pub mod Reducing
mod Started
mod Written
