mod Checks
mod Standing
mod Making
mod Whole
