pub mod Ahead
pub mod Named
pub mod Told
