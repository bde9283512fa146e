pub mod Endings
pub mod Feeding
pub mod Filled
pub mod Gathering
pub mod Pieces
pub mod Readings
pub mod Replying
pub mod Sketching
