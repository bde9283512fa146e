pub mod Duty
