mod Certificates
mod Certifying
pub mod Told
