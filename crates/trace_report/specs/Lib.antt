pub mod Places
pub mod Outputs
pub mod Requests
pub mod Lines
pub mod Trace
pub mod Walk
pub mod Laws
