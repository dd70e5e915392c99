pub mod Changed
pub mod Entered
pub mod Front
pub mod Names
pub mod Arms
pub mod OfValues
