mod Begins
mod Collected
mod Ended
mod Heads
mod Frames
mod Light
mod Moves
mod Rooms
mod Taken
pub mod Written
