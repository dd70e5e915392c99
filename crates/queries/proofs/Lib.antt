pub mod Answers
mod Determined
pub mod GoodOpens
pub mod MarkLaws
pub mod Others
pub mod Runs
pub mod ScanLaws
mod Sizes
pub mod SortMarks
