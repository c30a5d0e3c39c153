pub mod Recordings
pub mod Dumps
