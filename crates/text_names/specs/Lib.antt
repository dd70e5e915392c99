pub mod Stands
pub mod Effects
pub mod Naming
pub mod Leaves
