pub mod Apps
pub mod Groups
pub mod Needs
pub mod Options
pub mod Plain
pub mod Values
