pub mod Asked
pub mod Measures
pub mod Outcome
pub mod Status
pub mod Total
