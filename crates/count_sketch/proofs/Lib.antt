pub mod AtSpots
pub mod Counting
pub mod Estimates
pub mod Grids
pub mod Middles
pub mod Shares
pub mod Steps
