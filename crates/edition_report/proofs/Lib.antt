pub mod Ahead
pub mod Bytes
pub mod Found
pub mod OnRows
pub mod Placed
pub mod Promise
