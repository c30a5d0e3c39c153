pub mod Complete
pub mod Rounds
