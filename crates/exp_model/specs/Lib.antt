pub mod Edges
pub mod Sessions
pub mod Steps
