mod Adding
pub mod Fronts
pub mod Readings
pub mod Records
pub mod Weights
