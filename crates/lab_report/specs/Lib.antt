pub mod Steps
pub mod Runs
pub mod Data
pub mod Report
