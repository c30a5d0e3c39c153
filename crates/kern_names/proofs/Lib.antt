pub mod Entries
pub mod Members
pub mod Numbers
pub mod Positions
pub mod Typed
