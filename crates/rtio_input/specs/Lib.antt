pub mod Script
pub mod Channel
pub mod Past
pub mod Calls
