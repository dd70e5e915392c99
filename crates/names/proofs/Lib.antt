pub mod Asked
pub mod Compared
mod Determined
pub mod Digests
mod Kept
pub mod Told
