mod Central
mod Kept
mod Texts
