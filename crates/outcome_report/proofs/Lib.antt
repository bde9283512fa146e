pub mod Placed
mod Ranges
