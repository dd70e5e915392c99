pub mod Told
pub mod Digests
pub mod Promises
pub mod Theorems
