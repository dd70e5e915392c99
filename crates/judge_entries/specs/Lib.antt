pub mod Entries
pub mod Slotted
pub mod Tables
