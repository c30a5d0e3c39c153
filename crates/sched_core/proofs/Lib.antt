pub mod Halted
pub mod Kits
pub mod Jumping
pub mod Due
pub mod Taken
pub mod Reported
pub mod Steps
