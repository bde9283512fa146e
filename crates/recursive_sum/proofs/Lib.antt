pub mod Clipped
pub mod Descent
pub mod Great
pub mod Ranks
pub mod Sums
