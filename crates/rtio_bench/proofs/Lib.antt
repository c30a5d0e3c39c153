pub mod Passed
pub mod Sums
