pub mod Lists
pub mod Scripts
mod Growing
mod Resets
pub mod Each
pub mod Seen
mod Rings
mod Steps
pub mod Standing
mod Made
mod Examples
pub mod Undecided
pub mod Fitting
pub mod Waiting
pub mod Others
