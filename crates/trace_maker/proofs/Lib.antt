pub mod Ranges
pub mod Traces
