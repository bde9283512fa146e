pub mod Fields
pub mod Heads
pub mod Solved
pub mod Steps
