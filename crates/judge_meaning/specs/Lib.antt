pub mod Read
pub mod Truth
