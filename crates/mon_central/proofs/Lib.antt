pub mod Answered
mod Kept
mod LiveCounts
mod OneMore
mod Packets
mod Ranges
mod Readings
mod Splitting
mod Views
mod Stops
pub mod Told
