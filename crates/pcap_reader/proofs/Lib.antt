pub mod Faults
pub mod Headers
pub mod Fillings
pub mod Traces
pub mod Readings
pub mod Records
pub mod Steps
