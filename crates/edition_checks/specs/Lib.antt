pub mod Counts
pub mod Given
pub mod Keeping
pub use Rattle.edition_status.specs.Sheets
pub use Rattle.edition_status.specs.Status
