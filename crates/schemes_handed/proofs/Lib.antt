pub mod Back
pub mod Numbers
pub mod OnBounds
pub mod Said
pub mod Stored
pub mod Tables
pub mod Tested
