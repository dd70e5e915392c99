pub mod Answers
pub mod Counting
pub mod Entries
pub mod Filling
pub mod Given
pub mod Placing
pub mod Tables
pub mod Turns
