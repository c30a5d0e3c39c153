pub mod Given
pub mod Kept
pub mod Passing
pub mod TakenBy
