mod Fronts
mod Limits
mod Performing
mod Rebinding
mod Searching
mod Written
