pub mod Below
pub mod Attempts
pub mod Book
pub mod Next
pub mod Kept
pub mod Calls
