pub mod Entries
pub mod Inside
pub mod Handles
pub mod Named
mod Examples
