pub mod Heads
pub mod Pieces
pub mod Reading
pub mod Share
