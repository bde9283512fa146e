pub mod Fields
mod FrameFronts
mod Frames
pub mod Framing
pub mod Fronts
mod HeadFronts
pub mod Heads
pub mod Judged
pub mod KnownHeads
pub mod Reading
pub mod Says
mod Settings
mod SolveFronts
mod Solves
pub mod Spelled
pub mod Spellings
pub mod Tallies
mod Vectors
pub mod Walks
