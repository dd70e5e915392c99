pub mod Scanned
pub mod Names
pub mod Numbers
