mod Beyond
mod Distinct
mod Joined
mod Judging
mod Lines
mod Missed
mod Set
mod Spelled
mod Stopped
mod Walked
pub mod Ends
