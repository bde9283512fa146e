pub mod Accepted
pub mod Outs
pub mod Fed
pub mod Answered
