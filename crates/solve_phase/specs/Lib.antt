pub mod Phase
pub mod Solving
pub mod Told
