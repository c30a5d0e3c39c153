pub mod Examples
pub mod Numbered
