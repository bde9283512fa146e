pub mod Roster
pub mod Fed
