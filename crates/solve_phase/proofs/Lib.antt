pub mod Ends
pub mod Alike
pub mod Stops
pub mod Counts
