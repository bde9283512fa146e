pub mod Segments
pub mod Places
pub mod Stands
pub mod Starts
pub mod Fits
pub mod Took
pub mod Numbered
