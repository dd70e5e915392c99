pub mod Asked
mod Conflicting
mod Denied
mod Each
pub mod Files
pub mod Judged
mod Lines
pub mod OnReport
mod Origins
pub mod Pages
pub mod Reading
mod Seen
pub mod Sheets
pub mod Told
pub mod Truth
