mod Tests
mod Runs
pub mod CasesOfAlike
