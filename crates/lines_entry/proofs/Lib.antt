pub mod Entered
pub mod Entry
pub mod Others
pub mod StepLists
pub mod Told
pub mod Used
