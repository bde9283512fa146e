pub mod Outs
pub mod Fed
pub mod Supervised
pub mod Told
pub mod Searches
pub mod Parts
