-- What the contracts of this crate cite, and how pairs are gone through.
pub mod Pairs
