pub mod Answered
pub mod Found
pub mod Kept
pub mod TwoPhases
mod Weighed
