pub mod Counting
mod Edition
mod LinesKept
pub mod Passing
