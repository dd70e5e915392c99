mod Calls
pub mod Determined
pub mod Entry
pub mod Held
pub mod OnKinds
pub mod Places
pub mod Steps
