pub mod Central
