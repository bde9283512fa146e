pub mod Format
pub mod Keys
