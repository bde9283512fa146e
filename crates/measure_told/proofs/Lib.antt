pub mod Alike
pub mod Answered
pub mod Cut
pub mod Faults
mod OneReply
pub mod Phases
mod Read
pub mod Replayed
pub mod Searched
pub mod Stops
pub mod Told
