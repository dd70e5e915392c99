pub mod Going
pub mod Issued
pub mod OnDeeds
