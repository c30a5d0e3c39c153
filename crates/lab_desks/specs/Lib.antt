pub mod Columns
pub mod Seats
pub mod Closed
