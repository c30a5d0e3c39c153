pub mod Readings
pub mod Parts
pub mod Numbers
pub mod Schedules
pub mod Lists
