mod Examples
pub mod Numbered
pub mod Chosen
pub mod Numbers
pub mod Firsts
pub mod Moves
pub mod Clocked
pub mod Openings
pub mod Stored
pub mod Moved
pub mod Stepped
