mod Determined
pub mod Entry
pub mod Found
pub mod Proposed
pub mod Rest
