pub mod AtTop
pub mod Histories
pub mod Lent
mod Scripted
mod Once
mod Steps
mod Pacing
mod Whole
mod LockstepLaw
mod Existing
mod Rows
mod Draining
