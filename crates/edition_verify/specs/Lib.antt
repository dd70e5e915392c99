pub mod Files
pub mod Verifying
