pub mod Refused
mod Images
pub mod Running
mod Few
mod Sending
mod Waves
mod Answering
