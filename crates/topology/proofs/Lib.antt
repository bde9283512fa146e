pub mod Accepted
pub mod Documents
pub mod EachEntry
pub mod FirstFault
pub mod SeenLists
