pub mod Entries
pub mod Appended
pub mod Copied
pub mod Found
pub mod Sums
mod Examples
