pub mod Checked
pub mod Duty
