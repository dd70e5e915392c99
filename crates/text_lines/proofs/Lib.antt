pub mod Answers
pub mod Shapes
pub mod Statements
