pub mod Claims
pub mod FormedSteps
pub mod Theorems
