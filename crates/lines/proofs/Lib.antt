mod Determined
pub mod Nested
pub mod Settled
pub mod Slices
pub mod Standing
pub mod Typed
pub mod Whole
