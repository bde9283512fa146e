pub mod Counts
pub mod Routed
pub mod Scan
