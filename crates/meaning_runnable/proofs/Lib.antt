pub mod Functions
mod Runs
