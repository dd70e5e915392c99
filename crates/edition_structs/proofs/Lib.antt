pub mod Steps
pub mod Keys
pub mod Compared
