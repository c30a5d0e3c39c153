mod Examples
pub mod Histories
pub mod Busies
pub mod Cycles
pub mod OneCycle
mod Summing
mod Placing
mod SortedOut
pub mod Steps
pub mod Parts
pub mod LiveHeld
pub mod Ticks
pub mod Greatest
pub mod Alone
pub mod Staying
mod Sieves
mod Single
