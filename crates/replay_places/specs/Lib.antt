pub mod Epochs
pub mod States
