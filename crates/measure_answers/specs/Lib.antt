pub mod Measure
pub mod Replayed
pub mod Reported
pub mod Text
