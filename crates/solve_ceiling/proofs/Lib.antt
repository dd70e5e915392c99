pub mod Answers
pub mod Counting
mod Determined
