pub mod Child
pub mod Reading
pub mod Replies
pub mod Work
