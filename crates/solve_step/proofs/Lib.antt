mod Conditions
mod Others
pub mod Parts
mod Quotient
mod Rules
mod Short
mod Sizes
mod Written
