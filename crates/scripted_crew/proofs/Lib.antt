pub mod Deeds
pub mod Keeping
pub mod Events
