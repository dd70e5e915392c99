mod Determined
mod ReadCall
mod Whole
