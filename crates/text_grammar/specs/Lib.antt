pub mod Points
pub mod Powers
pub mod Values
pub mod Factors
pub mod Signs
pub mod Types
pub mod Choice
