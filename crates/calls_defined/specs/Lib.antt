-- What the contracts of this crate cite, and those of the groups of calls.
pub mod Saying
pub mod Fills
pub mod Given
pub mod Factors
pub mod Numbers
pub mod Dispatch
