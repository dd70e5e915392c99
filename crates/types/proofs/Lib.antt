mod Alone
mod Asked
pub mod Binds
mod Bound
pub mod Entering
mod Factors
pub mod FieldsFound
pub mod GivenLists
pub mod GivenSets
mod Heads
pub mod Held
pub mod OnSets
pub mod Puts
pub mod Rows
pub mod Runs
mod SameWords
mod Seen
pub mod Tested
pub mod Written
