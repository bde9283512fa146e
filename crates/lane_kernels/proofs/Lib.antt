pub mod Joins
pub mod Lanes
pub mod Marks
