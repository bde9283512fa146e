mod Asking
mod Counting
mod Digits
pub mod Measuring
pub mod Telling
