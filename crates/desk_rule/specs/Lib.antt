pub mod Histories
pub mod Records
pub mod Kept
pub mod Steps
pub mod Views
pub mod Closing
