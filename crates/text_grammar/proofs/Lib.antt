pub mod Choice
pub mod Factors
pub mod Points
pub mod Powers
pub mod Signs
pub mod Types
pub mod Values
