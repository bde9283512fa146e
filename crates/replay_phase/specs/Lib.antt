pub mod Merged
pub mod Phase
