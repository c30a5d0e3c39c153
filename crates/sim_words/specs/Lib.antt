pub mod Given
pub mod Matches
pub mod Asked
