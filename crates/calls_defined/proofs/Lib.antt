pub mod Factors
pub mod Fills
pub mod Same
