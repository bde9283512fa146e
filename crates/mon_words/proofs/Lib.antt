pub mod Absences
pub mod Arguments
pub mod Defaults
pub mod Grouping
pub mod Numerals
pub mod Refusals
pub mod Plain
