pub mod Nonzero
pub mod Sums
