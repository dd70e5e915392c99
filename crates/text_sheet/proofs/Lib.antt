pub mod Given
pub mod Loop
