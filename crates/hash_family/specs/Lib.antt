pub mod Hash
pub mod Limits
pub mod Row
pub mod Setting
pub mod Stream
