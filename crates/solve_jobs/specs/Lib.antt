pub mod Reading
pub mod Replies
pub mod Search
pub mod SolveJobs
pub mod SolveLaws
