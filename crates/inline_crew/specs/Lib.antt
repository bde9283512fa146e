pub mod InOrder
pub mod Keeps
