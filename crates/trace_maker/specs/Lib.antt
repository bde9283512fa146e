pub mod Packet
pub mod Stream
pub mod Topology
pub mod Trace
