pub mod Cuts
mod Loops
mod Holding
mod Examples
