mod Counting
mod Kept
mod Calls
