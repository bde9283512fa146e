pub mod Call
pub mod CrewCall
pub mod Setting
pub mod Told
pub mod Topology
pub mod Trace
