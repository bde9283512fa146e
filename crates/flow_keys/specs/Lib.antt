pub mod Frame
pub mod Key
pub mod Numbers
pub mod Prefix
pub mod Text
