pub mod Tokens
pub mod Drivers
