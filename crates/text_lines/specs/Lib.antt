pub mod Statements
pub mod Answers
