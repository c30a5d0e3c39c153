pub mod Answers
pub mod Lists
pub mod Objects
pub mod Paths
pub mod Readings
pub mod Values
