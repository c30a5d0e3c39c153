pub mod Live
pub mod Groups
pub mod Busy
pub mod Sieve
pub mod Outputs
pub mod Merge
pub mod Summaries
pub mod Places
