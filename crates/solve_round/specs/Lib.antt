pub mod Parts
pub mod Standing
pub mod States
