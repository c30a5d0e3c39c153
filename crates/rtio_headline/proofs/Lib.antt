pub mod Lists
mod Submitting
pub mod Placed
mod Grouped
mod Kept
mod Late
mod Headlines
mod Few
mod Examples
