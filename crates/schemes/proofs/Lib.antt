mod Called
mod Generalised
mod Generalising
mod Instantiated
mod Rows
mod Schemes
mod Whole
