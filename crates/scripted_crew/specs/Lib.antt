pub mod Script
pub mod Gives
pub mod Keeps
