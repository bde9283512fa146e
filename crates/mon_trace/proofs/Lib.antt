mod Counting
mod Found
mod OneMore
mod Readings
mod Stops
pub mod Limits
pub mod Placed
