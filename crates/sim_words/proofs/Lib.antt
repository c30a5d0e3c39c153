mod Lists
mod Plain
mod Shapes
mod Walked
mod Law
pub mod Accepted
mod Examples
