pub mod Ending
pub mod Loop
