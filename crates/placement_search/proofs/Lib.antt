pub mod Better
pub mod Capacities
pub mod Floors
pub mod Leaves
pub mod Overload
pub mod Composed
pub mod Conclusions
