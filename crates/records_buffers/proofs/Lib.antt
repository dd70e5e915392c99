pub mod Determined
pub mod Handed
pub mod OnLent
