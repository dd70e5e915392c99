pub mod Core
pub mod Ready
