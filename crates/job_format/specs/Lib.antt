pub mod Given
pub mod Held
pub mod Job
pub mod Places
pub mod Read
pub mod Rooms
