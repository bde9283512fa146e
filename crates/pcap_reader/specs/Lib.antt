pub mod Filling
pub mod Header
pub mod Laws
pub mod Numbers
pub mod Reader
pub mod Trace
