-- What the contracts of this crate cite, and how an answer is handed over.
pub mod Exports
