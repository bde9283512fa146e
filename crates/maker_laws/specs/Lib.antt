pub mod Members
pub mod Topology
