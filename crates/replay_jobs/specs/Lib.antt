pub mod Grouped
pub mod Replays
pub mod ReplayJobs
pub mod ReplayLaws
