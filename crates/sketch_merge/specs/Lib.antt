pub mod Levels
pub mod Merged
pub mod Merging
pub mod Next
pub mod Stored
