pub mod Answer
pub mod Places
pub mod Ranking
pub mod Table
