pub mod Sound
pub mod Waits
pub mod Ladder
pub mod Workers
pub mod Left
