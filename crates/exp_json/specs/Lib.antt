pub mod Answers
pub mod Arrivals
pub mod Experiments
pub mod Pipelines
pub mod Sessions
pub mod Steps
pub mod Texts
