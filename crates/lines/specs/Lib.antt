pub mod Nested
pub mod Standing
pub mod Theorems
pub mod Typed
pub mod Whole
