pub mod Items
pub mod Kept
pub mod Levels
pub mod Noted
pub mod Stands
pub mod Totals
