pub mod Turned
mod Later
mod Deciding
pub mod Histories
pub mod Standing
mod Owning
pub mod Whole
pub mod Meanings
