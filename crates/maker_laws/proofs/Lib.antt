mod Keys
mod Members
pub mod Topologies
