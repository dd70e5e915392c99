pub mod StepLists
pub mod Told
pub mod Used
pub mod Entered
