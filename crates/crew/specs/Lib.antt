pub mod Log
pub mod Crew
pub mod Answers
pub mod Kept
