pub mod Behind
pub mod Honest
pub mod Measures
pub mod Phases
pub mod Replays
pub mod Rivals
pub mod Spelled
