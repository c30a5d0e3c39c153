pub mod Extends
pub mod Grows
pub mod Kept
pub mod Meant
pub mod Runs
pub mod Together
