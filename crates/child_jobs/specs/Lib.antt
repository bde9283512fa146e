pub mod Ends
pub mod Heads
pub mod Items
pub mod Reader
pub mod Rooms
