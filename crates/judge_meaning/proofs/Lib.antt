mod Arms
mod Reading
mod Rows
mod Truths
