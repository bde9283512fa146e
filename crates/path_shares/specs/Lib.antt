pub mod Blocks
pub mod Honest
pub mod Shares
