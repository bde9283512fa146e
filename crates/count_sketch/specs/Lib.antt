pub mod Counters
pub mod Estimate
pub mod Row
pub mod Shape
pub mod Spots
