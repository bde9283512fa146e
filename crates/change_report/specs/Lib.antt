pub mod Block
pub mod Change
pub mod Form
pub mod Head
