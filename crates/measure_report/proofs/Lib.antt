pub mod EpochLines
mod Pieces
pub mod Reports
