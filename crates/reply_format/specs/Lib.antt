pub mod Outcomes
pub mod Places
pub mod Read
pub mod Reply
