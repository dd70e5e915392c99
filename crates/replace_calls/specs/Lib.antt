pub mod Entry
pub mod Stands
pub mod Made
