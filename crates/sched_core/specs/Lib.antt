pub mod Scheds
pub mod Calls
pub mod Jumps
pub mod Inside
pub mod Booked
