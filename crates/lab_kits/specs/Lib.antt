pub mod Calls
pub mod Ends
pub mod Accepted
pub mod Kits
