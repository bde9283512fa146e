pub mod Central
pub mod Duty
pub mod Live
pub mod Sketched
