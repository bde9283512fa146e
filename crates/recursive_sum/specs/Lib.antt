pub mod Select
pub mod Sum
