mod Sources
pub mod Saying
pub mod Calls
