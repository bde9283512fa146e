pub mod Bytes
pub mod Frames
pub mod Heads
pub mod Judged
