pub mod Certified
pub mod Reading
pub mod Truth
