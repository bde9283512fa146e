pub mod Kept
pub mod Leaf
pub mod Overload
pub mod Searched
pub mod Shown
