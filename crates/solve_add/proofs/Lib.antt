pub mod Checked
mod Determined
pub mod Others
pub mod Stored
pub mod Tests
pub mod Whole
