pub mod Going
pub mod Named
pub mod Said
pub mod Standing
pub mod Truth
pub mod Verdict
