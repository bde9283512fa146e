pub mod Inline
