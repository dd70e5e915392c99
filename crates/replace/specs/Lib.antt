pub mod Runs
pub mod Places
pub mod Substitutions
pub mod Opened
pub mod Well
pub mod InProducts
pub mod Leaves
