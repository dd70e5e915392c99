pub mod Scans
pub mod Marks
pub mod Told
pub mod Theorems
