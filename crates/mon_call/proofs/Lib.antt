pub mod Behind
pub mod Endings
mod Lengths
pub mod Telling
pub mod Topologies
