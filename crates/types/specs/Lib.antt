pub mod Binds
pub mod Fine
pub mod Given
pub mod Once
pub mod Runs
pub mod Sets
pub mod Shapes
pub mod Written
