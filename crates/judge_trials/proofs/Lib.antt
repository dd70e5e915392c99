pub mod Failing
pub mod Trials
