pub mod Known
pub mod Live
pub mod Table
