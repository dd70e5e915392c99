-- What the contracts of this crate cite, and where a name stands.
pub mod Words
pub mod Factors
