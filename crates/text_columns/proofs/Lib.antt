pub mod Columns
pub mod Cut
pub mod Deep
pub mod Left
mod Sound
pub mod Told
pub mod Upto
