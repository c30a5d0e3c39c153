pub mod Reading
pub mod Lookup
pub mod Sums
