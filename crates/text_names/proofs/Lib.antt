pub mod Effects
pub mod Inside
pub mod Leaves
pub mod Naming
pub mod Stands
