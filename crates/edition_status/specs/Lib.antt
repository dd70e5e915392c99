pub mod Status
pub mod Sheets
