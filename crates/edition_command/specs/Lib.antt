-- The definitions that contracts cite.
pub mod Promise
