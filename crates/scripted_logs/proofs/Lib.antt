pub mod Acts
pub mod Answering
pub mod Firsts
pub mod Honest
pub mod Measures
