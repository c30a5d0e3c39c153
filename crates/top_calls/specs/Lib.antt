pub mod Streams
pub mod Statuses
pub mod Commands
pub mod Sayings
pub mod Tellings
pub mod Calls
